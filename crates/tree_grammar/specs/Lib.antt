pub mod Texts
pub mod TreeFile
pub mod TreeParsing
pub mod TreePieces
pub mod UseCodes
pub mod Uses
