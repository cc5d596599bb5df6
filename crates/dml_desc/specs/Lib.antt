pub mod Checked
pub mod Descriptor
pub mod Encoding
pub mod Laws
pub mod RefusalLaws
