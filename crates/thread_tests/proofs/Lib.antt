pub mod Companies
