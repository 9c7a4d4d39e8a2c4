mod Asked
mod Asking
mod Behind
mod Contents
mod Lists
pub mod Primaries
mod Raw
pub mod RecipeRequests
pub mod ReportPrimaries
