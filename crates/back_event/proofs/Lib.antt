pub mod PutOrder
pub mod HandlerLaws
pub mod HandlersAre
