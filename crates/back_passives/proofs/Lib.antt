pub mod PassiveLaws
