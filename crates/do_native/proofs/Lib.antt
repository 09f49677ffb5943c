mod RulesFollowed
