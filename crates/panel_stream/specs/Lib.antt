pub mod PanelStream
