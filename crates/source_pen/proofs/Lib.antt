pub mod Bytes
pub mod Numbers
pub mod Pens
pub mod Signs
pub mod Texts
