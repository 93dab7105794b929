-- The program around the library. Turn is what one turn of its loop does, by what the calls of C answered; Laws states what follows for the text that waits, for a read, and after a failure;
-- Printed states the theorems over all turns: what is handed to the output, one text after the other, is what the definition of trackbox says of the bytes that were read, or a prefix of it.
-- The proofs are in proofs/.
pub mod Turn
pub mod Laws
pub mod Printed
