-- Laws has what upper layers want.
pub mod Laws
