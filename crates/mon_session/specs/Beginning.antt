-- A session that was just opened.
use Rattle.std.specs.Prelude.{ℕ, ◌+◌, false, if◌then◌else◌, [], None, length, sum_by}
use Rattle.mon_legal.specs.Held.{is_empty}
use Rattle.mon_session.specs.Now.{Now}
use Rattle.mon_session.specs.Walks.{Known}

-- nothing came yet, and its slot has this version
abbrev pub begun : ℕ → Now
begun version = record {
  greeted = false;
  known = false;
  datapath = None;
  catching = [];
  asked = false;
  askers = [];
  armed = false;
  kept = [];
  count = 0;
  table = [];
  unsettled = [];
  waiting = [];
  under_way = [];
  planned = 0;
  postponed = [];
  miss = 128;
  tracks = [];
  watching = record { watch = None; last = None; round = 0 };
  reported = None;
  out = None;
  name = None;
  guards = [];
  version = version;
}

abbrev pub opened : ℕ → ℕ → ℕ → Known
opened number slot version = record { number = number; slot = slot; now = begun version }

-- how many bytes the frames of its controller have that lack their whole fate
abbrev pub held_of : Now → ℕ
held_of n = (if is_empty n.under_way then 0 else n.planned) + sum_by length n.waiting
