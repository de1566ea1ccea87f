pub mod Files
pub mod Place
pub mod Taking
pub mod Installing
