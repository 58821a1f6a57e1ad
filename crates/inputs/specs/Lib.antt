pub mod Supply
pub mod Places
pub mod Loading
