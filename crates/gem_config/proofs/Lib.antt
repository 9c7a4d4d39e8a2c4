mod Counts
mod Fitting
mod FittingPlans
mod FittingRows
mod ItemTexts
mod Meaning
