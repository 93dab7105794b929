-- ForgetLaws is what the code's loops and returns need. Theorem proves what specs/Laws.antt states, by IdLaws on lists of ids and OrderLaws on what is left of a table.
pub mod ForgetLaws
pub mod IdLaws
pub mod OrderLaws
pub mod Theorem
