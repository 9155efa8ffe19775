pub mod OneBehaviour
pub mod OneBehaviourInOrder
