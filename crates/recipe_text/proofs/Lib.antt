mod Anchors
mod CertLines
mod CertPlaces
mod CertPlans
mod Cuts
mod Decimals
mod Entries
mod Going
mod KeyLines
pub mod KeyRecipes
mod ModuleLines
mod ModulePlaces
mod ModulePlans
mod Names
mod Oids
mod PackageLines
mod PackagePlaces
mod PackagePlans
mod PackageWords
pub mod RecipeLaws
mod Recipes
mod Sizes
mod Taking
mod Texts
mod WordLemmas
pub mod OneSaid
pub mod CertOne
pub mod ModuleOne
pub mod PackageOne
