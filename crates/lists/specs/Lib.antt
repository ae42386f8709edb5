pub mod Laws
pub mod Listed
pub mod Options
pub mod Orders
pub mod Products
