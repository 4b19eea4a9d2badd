-- What serving a connection of a script may give.
use Rattle.std.specs.Prelude.{◌≡◌, true}
use Rattle.service_core.specs.declared.ended.Ended.{Ended}
use Rattle.service_core.specs.declared.ended.How.TheVariants.{Memory, Upgraded}
use Rattle.service_core.specs.declared.link.Link.{Ghosts as LinkOf}
use Rattle.http1_dispatcher.specs.Ending.{FaultsBy, WroteBy}
use Rattle.script_service.specs.Sites.{Site, answers_of}

module _ {L : Type 0} (site : Site) (g : LinkOf L) (link : L) where
  -- An end that the service may give to the link as it was given: it is the same link, its counts of faults go by how it ended, and so
  -- does what was written of the site's answers.
  pub record ServesScript (ended : Ended L) : Type 0 where
    pub same : g.identity ended.link ≡ g.identity link
    pub faults : FaultsBy g link ended.link ended.how
    pub wrote : WroteBy g (answers_of site (g.identity link).peer) link ended.link ended.how
    pub upgraded : ended.how ≡ Upgraded → site.echoes_upgrades ≡ true

  -- a link that its future may hand back
  abbrev pub LeavesScript : L → Type 0
  LeavesScript back = ServesScript (record { link = back; how = Memory })
