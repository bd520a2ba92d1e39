pub mod CertificateFile
pub mod Headers
pub mod Reading
