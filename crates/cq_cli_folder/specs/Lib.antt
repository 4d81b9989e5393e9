pub mod FileName
