-- What the crew of a pool says of itself.
use Rattle.std.specs.Prelude.{ℕ, Option, None}
use Rattle.mon_pool.specs.declared.pass.LoopSide.{LoopSide}

-- the job that was released: none ever is
abbrev pub released_of : LoopSide → Option ℕ
released_of s = None
