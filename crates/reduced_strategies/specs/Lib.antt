pub mod Choices
pub mod Examples
pub mod Laws
pub mod Places
pub mod StrategicForm
