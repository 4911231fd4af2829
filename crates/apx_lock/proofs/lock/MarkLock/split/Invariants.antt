use Rattle.apx_lock.proofs.lock.MarkLock.split.Given as goal

abbrev pub ghosts-cut : goal.ghosts-cut
ghosts-cut g a = record { mark = a._hand }
