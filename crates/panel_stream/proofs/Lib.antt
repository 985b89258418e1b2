pub mod Backs
pub mod Adds
pub mod Shows
pub mod PanelStream
