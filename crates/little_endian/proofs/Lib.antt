pub mod FirstBytes
pub mod BytesAtPlace
