-- Laws is for the calls, which ask for the verdict first.
pub mod Laws
