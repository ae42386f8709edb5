pub mod Digits
pub mod Laws
pub mod NumberReading
pub mod Numbers
pub mod Reading
pub mod Stops
pub mod Texts
pub mod Tokens
