pub mod FittingSteps
pub mod Standing
pub mod TextLength
pub mod WritingSteps
pub mod WritingAt
pub mod RenderingSteps
pub mod RoundTrip
