-- What the public contracts cite, and the words of private ones.
pub use Rattle.tile_generations.specs.Jobs
pub mod Deal
pub mod Laws
pub mod Names
pub mod Parcels
pub mod Reports
pub mod Views
pub mod Working
