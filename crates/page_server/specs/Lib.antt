pub use Rattle.http_server.specs.Rounds
pub use Rattle.view_session.specs.Kept as KeptFiles
pub use Rattle.run_faults.specs.RunError
pub use Rattle.view_session.specs.Store
pub use Rattle.view_session.specs.View
pub use Rattle.page_board.specs.Board
pub use Rattle.page_board.specs.Keeping as BoardKeeping
pub use Rattle.page_board.specs.Opening as BoardOpening
pub use Rattle.page_board.specs.Taking
pub use Rattle.page_service.specs.Showing
pub use Rattle.page_service.specs.Answering
pub use Rattle.page_service.specs.MaskName
pub use Rattle.page_service.specs.Painting
pub use Rattle.page_service.specs.Kept
pub use Rattle.page_service.specs.Keeping
pub use Rattle.page_service.specs.Keeper
pub mod Pairs
pub mod Peer
pub mod Peers
pub mod Round
pub mod Hall
pub mod Caller
pub mod Opening
pub mod Page
pub mod Ports
pub mod Serving
pub mod Slices
pub mod Turning
