pub mod Headers
pub mod Users
pub mod Volumes
pub mod HeaderLaws
pub mod UserLaws
pub mod VolumeLaws
