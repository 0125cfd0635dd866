pub mod RestoreLaws
pub mod PowerLaws
pub mod CycleLaws
