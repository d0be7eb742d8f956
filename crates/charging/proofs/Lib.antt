pub mod Rules
pub mod Order
pub mod Ready
