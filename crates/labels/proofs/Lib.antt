pub mod OwnerWritten
