pub mod Contents
pub mod ReadingBack
pub mod Signs
