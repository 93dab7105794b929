-- The program motbox. Text is what it makes of its whole input: the records of the lines, until one is turned away. Turn is what one turn of its loop does, by what the calls of C answered,
-- Run what turns one after the other are, and Printed states the theorems over every run: what is written, one piece after the other, is what Text says of the bytes that were read, or a
-- prefix of it. The proofs are in proofs/. Known computes examples.
pub mod Text
pub mod Turn
pub mod Run
pub mod Printed
pub mod Known
