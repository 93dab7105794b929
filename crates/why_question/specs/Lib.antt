-- What the program why is asked: Question is what its words say; Due says which frame trackbox works next, and what is done with an item, and Laws that the frame explained is that one.
pub mod Question
pub mod Due
pub mod Laws
