-- Steps 1 to 7 of a frame. AllSteps says what a call answers and leaves; Private is only for the contracts between private functions.
pub mod AllSteps
pub mod Private
