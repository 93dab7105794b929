-- The program why around the library: Answer is what is printed.
pub mod Answer
