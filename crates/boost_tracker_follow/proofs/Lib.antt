-- FitLaws has what the tests of `follow` tell; FollowLaws, what its loops know and what it leaves.
pub mod FitLaws
pub mod FollowLaws
