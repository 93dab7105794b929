-- Records. Field, Record, BoxRecord and TrackRecord are the definitions, from document 01, "Records and limits", the bytes of each; Written says what a call that writes answers and leaves, and what one hands
-- to the next. Known computes the document's example.
pub mod Field
pub mod Written
pub mod Record
pub mod BoxRecord
pub mod TrackRecord
pub mod Known
