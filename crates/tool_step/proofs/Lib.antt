pub mod LossCalls
pub mod RecipeRuns
pub mod SetupRuns
pub mod SpoolRuns
pub mod StepFiles
