-- Laws of values within their widths.
pub mod Together
pub mod Below
