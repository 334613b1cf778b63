pub mod ApiText
pub mod Defining
pub mod HeaderDefs
pub mod HeaderLaw
pub mod HeaderRows
pub mod Laws
