pub mod Communities
