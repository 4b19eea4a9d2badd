use Rattle.cors_rules.proofs.UriSteps.{is_uri_decides}
use Rattle.cors_rules.proofs.laws.uris_are_those_of_http_uri.Goals as goal

pub returns : goal.returns
returns c = is_uri_decides
