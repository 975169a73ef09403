pub mod Lists
pub mod Numbering
pub mod Ordered
pub mod Storable
pub mod Compared
pub mod Placing
pub mod Seated
pub mod Found
