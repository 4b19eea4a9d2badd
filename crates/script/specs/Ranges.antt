-- The ranges of the numbers in a script's lines.
use Rattle.std.specs.Prelude.{⊤}
use Rattle.script.specs.Numbers.{IsWithin}
use Rattle.script.specs.declared.line.Line.{Line}
use Rattle.script.specs.declared.line.Line.TheVariants.{Skip, Setting, Policy, Place}
use Rattle.script.specs.declared.place.place_line.PlaceLine.{PlaceLine}
use Rattle.script.specs.declared.place.place_line.PlaceLine.TheVariants.{Listener, Conn, Late, Skip as Skips, FailListener, Give, Wait, Take, WriteWait, FailRead, FailWrite}
use Rattle.script.specs.declared.setting.setting_line.SettingLine.{SettingLine}
use Rattle.script.specs.declared.setting.setting_line.SettingLine.TheVariants.{Workers, Ring, Retry, Limit, Head, Body, Cut, Handle, KeepAliveOff, ExpectRefuse, UpgradeEcho}

abbrev pub IsSettingInRange : SettingLine → Type 0
IsSettingInRange (Workers count) = IsWithin 1 512 count
IsSettingInRange (Ring places) = IsWithin 1 4096 places
IsSettingInRange (Retry most) = IsWithin 1 1000 most
IsSettingInRange (Limit most) = IsWithin 1 1000000 most
IsSettingInRange (Head size) = IsWithin 1 65535 size
IsSettingInRange (Body size) = IsWithin 1 16777216 size
IsSettingInRange (Cut size) = IsWithin 1 65536 size
IsSettingInRange (Handle handler) = ⊤
IsSettingInRange KeepAliveOff = ⊤
IsSettingInRange ExpectRefuse = ⊤
IsSettingInRange UpgradeEcho = ⊤

abbrev pub IsPlaceInRange : PlaceLine → Type 0
IsPlaceInRange Listener = ⊤
IsPlaceInRange (Conn peer) = ⊤
IsPlaceInRange Late = ⊤
IsPlaceInRange Skips = ⊤
IsPlaceInRange FailListener = ⊤
IsPlaceInRange (Give bytes) = ⊤
IsPlaceInRange Wait = ⊤
IsPlaceInRange (Take most) = IsWithin 1 65536 most
IsPlaceInRange WriteWait = ⊤
IsPlaceInRange FailRead = ⊤
IsPlaceInRange FailWrite = ⊤

-- each number that the line says is in its range
abbrev pub IsInRange : Line → Type 0
IsInRange Skip = ⊤
IsInRange (Setting line) = IsSettingInRange line
IsInRange (Policy line) = ⊤
IsInRange (Place line) = IsPlaceInRange line
