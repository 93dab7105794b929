-- Document 02, N11. Forget says what a drop is, Known computes some, and Laws states what holds of accepted drops.
pub mod Forget
pub mod Known
pub mod Laws
