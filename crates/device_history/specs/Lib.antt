pub use Rattle.history.specs.Past
pub use Rattle.ctrl_types.specs.Classes
pub use Rattle.ctrl_types.specs.Checks as TypeChecks
pub use Rattle.ctrl_types.specs.Flags as TypeFlags
pub use Rattle.ctrl_types.specs.Events as TypeEvents
pub use Rattle.ctrl_calls.specs.Counts
pub use Rattle.ctrl_calls.specs.Meanings
pub use Rattle.ctrl_settle.specs.Control
pub use Rattle.ctrl_settle.specs.Settle
pub use Rattle.ctrl_handlers.specs.HandlerData
pub use Rattle.ctrl_handlers.specs.ClusterData
pub use Rattle.ctrl_handlers.specs.Plan
pub use Rattle.ctrl_handlers.specs.Visible
pub use Rattle.ctrl_handlers.specs.Builder
pub use Rattle.ctrl_clusters.specs.Rows
pub use Rattle.ctrl_clusters.specs.Judging
pub use Rattle.ctrl_clusters.specs.AutoClusters
pub use Rattle.ctrl_clusters.specs.Overlay
pub use Rattle.ctrl_clusters.specs.NewRows
pub use Rattle.ctrl_clusters.specs.Changes
pub use Rattle.ctrl_clusters.specs.Notified
pub use Rattle.ctrl_clusters.specs.PresentFlags
pub use Rattle.req_book.specs.Requests as RequestData
pub use Rattle.req_book.specs.Refusals as RequestRefusals
pub use Rattle.frame_queue.specs.Frames as FrameData
pub use Rattle.ctrl_events.specs.Events as FileEvents
pub use Rattle.ctrl_events.specs.Pending
pub use Rattle.ctrl_raises.specs.Raises
pub use Rattle.ctrl_forecast.specs.Applied
pub use Rattle.ctrl_forecast.specs.Forecasts as QueuedForecasts
pub use Rattle.ctrl_lists.specs.View
pub use Rattle.ctrl_lists.specs.Checks
pub use Rattle.ctrl_lists.specs.Touched
pub use Rattle.ctrl_lists.specs.Answers as ListAnswers
pub mod Steps
pub mod Refusals
pub mod Handles
pub mod Ranges
pub mod Grabs
pub mod Requests
pub mod Laid
pub mod Values
pub mod Controls
pub mod Flags
pub mod Frames
pub mod Snapshots
pub mod Words
pub mod Subscriptions
pub mod Events
pub mod Lists
pub mod RequestAnswers
pub mod EventAnswers
pub mod StepChecks
pub mod FrameSteps
pub mod EventSteps
pub mod Forecasts
pub mod Queries
pub mod Answers
pub mod AskChecks
pub mod Legal
pub mod Asking
pub mod Stretches
