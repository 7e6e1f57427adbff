-- Threads: where each is, and what the sheet shows of it.
pub use Rattle.lock.specs.declared.Then.{Then}
pub use Rattle.lock.specs.declared.Then.TheVariants.{Leaving, Upgrading, Inside}
pub use Rattle.lock.specs.declared.Phase.{Phase}
pub use Rattle.lock.specs.declared.Phase.TheVariants.{Idle, Writing, Asleep, Reading, Look, Enter, Climb}
pub use Rattle.lock.specs.declared.Phase.TheVariants.{ClimbSwap, Descend, Again, AgainSwap, Depart, DepartSwap}
pub use Rattle.lock.specs.declared.Phase.TheVariants.{Leave, LeaveSwap, QueueTake, QueueRead, QueueBack}
pub use Rattle.lock.specs.declared.Phase.TheVariants.{QueueJoin, Sleep, WriteLook, WriteEnter, WriteTake}
pub use Rattle.lock.specs.declared.Phase.TheVariants.{WriteRead, WriteClose, WriteHold, WriteJoin, UnlockTake}
pub use Rattle.lock.specs.declared.Phase.TheVariants.{UnlockNext, UnlockOpen, UnlockEnd, UnlockStore, LastTake}
pub use Rattle.lock.specs.declared.Phase.TheVariants.{LastNext, HandRelease, HandWake, UpgradeTrade}
pub use Rattle.lock.specs.declared.Phase.TheVariants.{UpgradeEnter, UpgradeLook, UpgradeSwap, DowngradeTake}
pub use Rattle.lock.specs.declared.Phase.TheVariants.{DowngradeNext, DowngradeStore, DowngradeRelease}
pub use Rattle.lock.specs.declared.Phase.TheVariants.{DowngradeWake}
pub use Rattle.lock.specs.declared.Standing.{Standing}
pub use Rattle.lock.specs.declared.Thread.{Thread}

-- a thread's "standing (`idle`, `reading`, `writing`, `calling`, `asleep`)"
unfoldable pub standing : Phase → Standing
standing Idle = Standing.Idle
standing Writing = Standing.Writing
standing Asleep = Standing.Asleep
standing (Reading k) = Standing.Reading k
standing (Look n) = Standing.Calling
standing (Enter v) = Standing.Calling
standing (Climb c n) = Standing.Calling
standing (ClimbSwap c n v) = Standing.Calling
standing (Descend c n) = Standing.Calling
standing (Again c n) = Standing.Calling
standing (AgainSwap c n v) = Standing.Calling
standing (Depart d k) = Standing.Calling
standing (DepartSwap d k v) = Standing.Calling
standing Leave = Standing.Calling
standing (LeaveSwap v) = Standing.Calling
standing (QueueTake n) = Standing.Calling
standing (QueueRead n) = Standing.Calling
standing (QueueBack n) = Standing.Calling
standing QueueJoin = Standing.Calling
standing Sleep = Standing.Calling
standing WriteLook = Standing.Calling
standing WriteEnter = Standing.Calling
standing WriteTake = Standing.Calling
standing WriteRead = Standing.Calling
standing (WriteClose v) = Standing.Calling
standing WriteHold = Standing.Calling
standing WriteJoin = Standing.Calling
standing UnlockTake = Standing.Calling
standing UnlockNext = Standing.Calling
standing UnlockOpen = Standing.Calling
standing UnlockEnd = Standing.Calling
standing (UnlockStore b) = Standing.Calling
standing LastTake = Standing.Calling
standing LastNext = Standing.Calling
standing (HandRelease g) = Standing.Calling
standing (HandWake g) = Standing.Calling
standing (UpgradeTrade n) = Standing.Calling
standing (UpgradeEnter n v) = Standing.Calling
standing UpgradeLook = Standing.Calling
standing (UpgradeSwap v) = Standing.Calling
standing DowngradeTake = Standing.Calling
standing DowngradeNext = Standing.Calling
standing (DowngradeStore b) = Standing.Calling
standing (DowngradeRelease b) = Standing.Calling
standing (DowngradeWake b) = Standing.Calling
