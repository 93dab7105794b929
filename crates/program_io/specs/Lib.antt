-- What the programs share. Input is what a read may answer, and Prefix what they state of their output: it is the beginning of what the whole input gives.
pub mod Input
pub mod Prefix
