-- The laws behind the proofs.
pub mod PairLaws
pub mod FrameLaws
pub mod ForgetLaws
pub mod MotLaws
