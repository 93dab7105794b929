-- What is known between two turns of trackbox, and what follows of it.
pub mod Progress
