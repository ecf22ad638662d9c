mod LayoutKeys
mod Control
mod Info
