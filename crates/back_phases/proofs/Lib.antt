pub mod PhasesAre
