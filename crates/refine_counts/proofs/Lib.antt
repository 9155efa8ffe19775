pub mod CompiledTells
