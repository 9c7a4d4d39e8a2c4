pub mod Asking
pub mod History
pub mod Keeper
pub mod Laws
pub mod NoRecipes
pub mod Recipes
pub mod Requests
pub mod Worked
