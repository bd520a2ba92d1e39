-- Nothing is watched.
use Rattle.std.specs.Prelude.{refl}
use Rattle.mon_legal.specs.Watches.{WatchesAreKept}
use Rattle.mon_legal.specs.Story.{run, the_ordinary_use}
use Rattle.mon_legal.proofs.Computed.{computed}

pub stands : WatchesAreKept run the_ordinary_use
unfolding computed
stands = (record { offers = ((λ room. refl), ((λ room. refl), ((λ room. refl), tt))); missing = tt }, record { offer = tt; seen = refl; unwatchable = refl; missing = refl }, (tt, record { offer = tt; seen = refl; unwatchable = refl; missing = refl }, (tt, record { offer = tt; seen = refl; unwatchable = refl; missing = refl }, (tt, record { offer = tt; seen = refl; unwatchable = refl; missing = refl }, (tt, record { offer = tt; seen = refl; unwatchable = refl; missing = refl }, (record { offers = ((λ room. refl), ((λ room. refl), ((λ room. refl), tt))); missing = tt }, record { offer = tt; seen = refl; unwatchable = refl; missing = refl }, (tt, record { offer = tt; seen = refl; unwatchable = refl; missing = refl }, (tt, record { offer = tt; seen = refl; unwatchable = refl; missing = refl }, (record { offers = ((λ room. refl), ((λ room. refl), ((λ room. refl), tt))); missing = tt }, record { offer = tt; seen = refl; unwatchable = refl; missing = refl }, (record { offers = ((λ room. refl), ((λ room. refl), ((λ room. refl), tt))); missing = tt }, record { offer = tt; seen = refl; unwatchable = refl; missing = refl }, (tt, record { offer = tt; seen = refl; unwatchable = refl; missing = refl }, (record { offers = ((λ room. refl), ((λ room. refl), ((λ room. refl), tt))); missing = tt }, record { offer = tt; seen = refl; unwatchable = refl; missing = refl }, (tt, record { offer = tt; seen = refl; unwatchable = refl; missing = refl }, (tt, record { offer = tt; seen = refl; unwatchable = refl; missing = refl }, (tt, record { offer = tt; seen = refl; unwatchable = refl; missing = refl }, (tt, record { offer = tt; seen = refl; unwatchable = refl; missing = refl }, (tt, record { offer = tt; seen = refl; unwatchable = refl; missing = refl }, (tt, record { offer = tt; seen = refl; unwatchable = refl; missing = refl }, (tt, record { offer = tt; seen = refl; unwatchable = refl; missing = refl }, (tt, record { offer = tt; seen = refl; unwatchable = refl; missing = refl }, (tt, record { offer = tt; seen = refl; unwatchable = refl; missing = refl }, (record { offers = ((λ room. refl), ((λ room. refl), ((λ room. refl), tt))); missing = tt }, record { offer = tt; seen = refl; unwatchable = refl; missing = refl }, (tt, record { offer = tt; seen = refl; unwatchable = refl; missing = refl }, (tt, record { offer = tt; seen = refl; unwatchable = refl; missing = refl }, (record { offers = ((λ room. refl), ((λ room. refl), ((λ room. refl), tt))); missing = tt }, record { offer = tt; seen = refl; unwatchable = refl; missing = refl }, (tt, record { offer = tt; seen = refl; unwatchable = refl; missing = refl }, (tt, record { offer = tt; seen = refl; unwatchable = refl; missing = refl }, (record { offers = ((λ room. refl), ((λ room. refl), ((λ room. refl), tt))); missing = tt }, record { offer = tt; seen = refl; unwatchable = refl; missing = refl }, (tt, record { offer = tt; seen = refl; unwatchable = refl; missing = refl }, (tt, record { offer = tt; seen = refl; unwatchable = refl; missing = refl }, (record { offers = ((λ room. refl), ((λ room. refl), ((λ room. refl), tt))); missing = tt }, record { offer = tt; seen = refl; unwatchable = refl; missing = refl }, (tt, record { offer = tt; seen = refl; unwatchable = refl; missing = refl }, (tt, record { offer = tt; seen = refl; unwatchable = refl; missing = refl }, (tt, record { offer = tt; seen = refl; unwatchable = refl; missing = refl }, (tt, record { offer = tt; seen = refl; unwatchable = refl; missing = refl }, (tt, record { offer = tt; seen = refl; unwatchable = refl; missing = refl }, (tt, record { offer = tt; seen = refl; unwatchable = refl; missing = refl }, (record { offers = ((λ room. refl), ((λ room. refl), ((λ room. refl), tt))); missing = tt }, record { offer = tt; seen = refl; unwatchable = refl; missing = refl }, (tt, record { offer = tt; seen = refl; unwatchable = refl; missing = refl }, (tt, record { offer = tt; seen = refl; unwatchable = refl; missing = refl }, (tt, record { offer = tt; seen = refl; unwatchable = refl; missing = refl }, (tt, record { offer = tt; seen = refl; unwatchable = refl; missing = refl }, (tt, record { offer = tt; seen = refl; unwatchable = refl; missing = refl }, (tt, record { offer = tt; seen = refl; unwatchable = refl; missing = refl }, (record { offers = ((λ room. refl), ((λ room. refl), ((λ room. refl), tt))); missing = tt }, record { offer = tt; seen = refl; unwatchable = refl; missing = refl }, (tt, record { offer = tt; seen = refl; unwatchable = refl; missing = refl }, (tt, record { offer = tt; seen = refl; unwatchable = refl; missing = refl }, (tt, record { offer = tt; seen = refl; unwatchable = refl; missing = refl }, (tt, record { offer = tt; seen = refl; unwatchable = refl; missing = refl }, (tt, record { offer = tt; seen = refl; unwatchable = refl; missing = refl }, (tt, record { offer = tt; seen = refl; unwatchable = refl; missing = refl }, (record { offers = ((λ room. refl), ((λ room. refl), ((λ room. refl), tt))); missing = tt }, record { offer = tt; seen = refl; unwatchable = refl; missing = refl }, (tt, record { offer = tt; seen = refl; unwatchable = refl; missing = refl }, (tt, record { offer = tt; seen = refl; unwatchable = refl; missing = refl }, (tt, record { offer = tt; seen = refl; unwatchable = refl; missing = refl }, (record { offers = ((λ room. refl), ((λ room. refl), ((λ room. refl), tt))); missing = tt }, record { offer = tt; seen = refl; unwatchable = refl; missing = refl }, (tt, record { offer = tt; seen = refl; unwatchable = refl; missing = refl }, (tt, record { offer = tt; seen = refl; unwatchable = refl; missing = refl }, (tt, record { offer = tt; seen = refl; unwatchable = refl; missing = refl }, (record { offers = ((λ room. refl), ((λ room. refl), ((λ room. refl), tt))); missing = tt }, record { offer = tt; seen = refl; unwatchable = refl; missing = refl }, (tt, record { offer = tt; seen = refl; unwatchable = refl; missing = refl }, (tt, record { offer = tt; seen = refl; unwatchable = refl; missing = refl }, (tt, record { offer = tt; seen = refl; unwatchable = refl; missing = refl }, (record { offers = ((λ room. refl), ((λ room. refl), ((λ room. refl), tt))); missing = tt }, record { offer = tt; seen = refl; unwatchable = refl; missing = refl }, (record { offers = ((λ room. refl), ((λ room. refl), tt)); missing = tt }, record { offer = tt; seen = refl; unwatchable = refl; missing = refl }, (record { offers = ((λ room. refl), tt); missing = tt }, record { offer = tt; seen = refl; unwatchable = refl; missing = refl }, (record { offers = tt; missing = tt }, record { offer = tt; seen = refl; unwatchable = refl; missing = refl }, tt)))))))))))))))))))))))))))))))))))))))))))))))))))))))))))))))))))
